mod Reviewed
mod Logged
mod Pictured
