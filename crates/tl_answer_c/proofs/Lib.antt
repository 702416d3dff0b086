mod Names
mod Refusals
