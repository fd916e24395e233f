-- What `main` rests on: the bytes that an accepted export counts lie in the space.
mod Fits
