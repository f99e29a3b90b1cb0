mod Behind
mod FirstOnes
mod Params
mod Lines
mod Modules
mod Calling
mod Answering
