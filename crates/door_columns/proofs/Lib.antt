-- Laws that the proofs of door_columns cite.
mod Laying
mod Said
