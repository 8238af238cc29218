-- `read_payload` reads what the grammar's `Payload` derives, and nothing else; so there is at most one reading.
-- Assumes nothing.
use mathlib.Core.Path.{refl}
use mathlib.Core.Bool.{true}
use mathlib.Core.List.{List}
use Prim.Native.Nat.{ℕ}
use Rattle.base_lists.proofs.More.{contra}
use Rattle.base_bytes.specs.declared.Mode.{Mode}
use Rattle.block_grammar.specs.Grammar.{Placed}
use Rattle.block_grammar.proofs.Payload as laws
use Rattle.proved_grammar.specs.Payload.{ReadIsPayload, PayloadIsRead, OnePayload, RefusedIsNoPayload}

pub sound : ReadIsPayload
sound = laws.sound

pub complete : {m : Mode} {at : ℕ} {s : List ℕ} {is : List Placed} → PayloadIsRead m at s is
complete p = laws.complete p

pub one_reading : {m : Mode} {at : ℕ} {s : List ℕ} {is js : List Placed} → OnePayload m at s is js
one_reading p q = let e = complete p in let f = complete q in cc

pub no_reading : RefusedIsNoPayload
no_reading m at s e is p = let f = complete p in contra true refl (cc)
