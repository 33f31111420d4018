mod Looking
mod Adding
mod Fitting
mod Filling
mod Tables
