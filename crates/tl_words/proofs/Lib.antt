mod Options
mod Rows
