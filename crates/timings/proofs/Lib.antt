mod Telling
mod Writing
mod Tabling
mod Flats
