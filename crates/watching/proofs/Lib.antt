mod Asking
mod Drawing
mod LineTexts
mod Showing
mod Turning
