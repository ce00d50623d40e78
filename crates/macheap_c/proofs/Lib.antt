mod Guests
mod Checking
mod Images
