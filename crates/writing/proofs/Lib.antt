mod Two
mod Ready
mod Sends
