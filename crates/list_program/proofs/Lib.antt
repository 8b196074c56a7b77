mod Turns
mod Lined
