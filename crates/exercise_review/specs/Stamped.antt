-- Datagrams that are sent again with another timestamp: bytes 4 to 7 of the header (IEEE 1278.1-2012, 6.2.66).
use Rattle.std.specs.Prelude.{◌≡◌, ℕ, List, length, take, drop, Bool, true, false, Option, IfSome}
use Rattle.std.specs.Borrow.{Bor}
use Rattle.std.specs.Option.{option_map_or}
use Rattle.siman_pdus.specs.declared.pdu.Pdu.{Pdu}
use Rattle.siman_pdus.specs.Same.{is_same_order}
use Rattle.exercise_model.specs.Recording.{PlainRecording}
use Rattle.exercise_model.specs.Meaning.{meaning}

-- b equals a except for the timestamp
pub record IsResent (a b : List ℕ) : Type 0 where
  pub size : length a ≡ length b
  pub front : take 4 a ≡ take 4 b
  pub rest : drop 8 a ≡ drop 8 b

-- a PDU with another timestamp
abbrev pub stamped : ℕ → Pdu → Pdu
stamped stamp p = record p { stamp = stamp }

-- bytes mean the order of the request p
abbrev pub says : PlainRecording → Pdu → List ℕ → Bool
says r p b = option_map_or (is_same_order p) (meaning r.setting.exercise b) false

-- optional bytes mean it
abbrev pub IsSaid : PlainRecording → Pdu → Option (Bor (List ℕ)) → Type 0
IsSaid r p said = IfSome said (λ b. says r p b.now ≡ true)
