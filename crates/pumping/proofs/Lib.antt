mod Written
mod Done
