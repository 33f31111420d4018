mod Each
mod Adding
mod Reading
mod Keeping
mod Bordering
