mod Behind
mod Seeing
mod Parens
mod ClassLines
mod Lines
mod Dividing
mod Naming
mod Calling
