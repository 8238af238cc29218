-- Trimming by places cuts out what trimming leaves, and a line is blank exactly where every byte is whitespace.
-- Assumes nothing.
use Rattle.text_lines.proofs.Trim as laws
use Rattle.proved_texts.specs.Trim.{TrimCutsOut, BlankIsAllSpace}

pub trim-part : TrimCutsOut
trim-part s = record { ordered = laws.trim_from s; inside = laws.trim_to s; bytes = laws.trim_slice s }

pub blank_all : BlankIsAllSpace
blank_all = laws.blank_all
