pub mod Places
pub mod Digits
pub mod Spaced
pub mod WholeLine
pub mod Laying
pub mod Fits
