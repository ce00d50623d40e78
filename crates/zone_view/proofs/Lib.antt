mod Found
mod Written
mod Noted
mod AllSeen
mod Ending
