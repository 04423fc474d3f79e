mod Tables
mod Flights
mod Kept
