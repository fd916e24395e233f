-- What `main` rests on: the bytes that an accepted import counts lie in the space.
mod Fits
