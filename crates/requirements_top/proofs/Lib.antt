mod Wording
mod Showing
mod Leaving
mod Named
mod Promising
mod Wishing
mod Certificates
mod Trying
