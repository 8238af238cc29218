-- What is proved of a sheet that is parted and of lines that were replaced, each statement under the sentence of document 02 that it renders.
pub mod Parts
pub mod Replaced
pub mod Mended
