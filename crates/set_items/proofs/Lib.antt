-- The laws that the proofs of set_items cite.
mod Slots
mod Means
mod Laying
