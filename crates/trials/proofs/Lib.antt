mod Alikes
mod Listed
mod Sharing
