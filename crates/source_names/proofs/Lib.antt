mod Finding
mod Seeing
mod Behind
mod Members
mod Left
mod Joining
mod Writing
mod Parens
