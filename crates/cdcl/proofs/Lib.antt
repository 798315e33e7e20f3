mod Search
mod Ending
mod OneHint
mod Assignments
