-- Worked logs and a checkpoint: which updates survive, by computing the definitions.
use Rattle.std.proofs.Common.{◌≡◌, [], ◌∷◌, Some, None, refl}
use Rattle.mt_words.specs.declared.update.Origin.TheVariants as origins
use Rattle.mt_words.specs.declared.update.Update.{Update}
use Rattle.mt_words.specs.declared.update.Kind.TheVariants.{Put, Whole}
use Rattle.mt_words.specs.Changes.{Logged}
use Rattle.mt_words.specs.Built.{mark_of, put_of, entry_of}
use Rattle.mt_scan.specs.Choice.{CheckpointReading}
use Rattle.mt_recover.specs.Recovery.{survivors}

-- a put of key a at timestamp 3, and a put of key b at timestamp 4
abbrev put_a : Logged
put_a = put_of 3 1 (97 ∷ []) ((0, 120 ∷ []) ∷ [])

abbrev put_b : Logged
put_b = put_of 4 1 (98 ∷ []) ((0, 121 ∷ []) ∷ [])

abbrev update_a : Update
update_a = record { key = 97 ∷ []; stamp = record { version = 1; origin = origins.Log 0 0 }; timestamp = 3; kind = Put ((0, 120 ∷ []) ∷ []) }

abbrev update_b : Update
update_b = record { key = 98 ∷ []; stamp = record { version = 1; origin = origins.Log 1 0 }; timestamp = 4; kind = Put ((0, 121 ∷ []) ∷ []) }

-- below the cutoff 5 both puts survive; the marks make no update
both_survive : survivors 5 None ((put_a ∷ mark_of 5 ∷ []) ∷ (put_b ∷ mark_of 6 ∷ []) ∷ []) ≡ update_a ∷ update_b ∷ []
both_survive = refl

-- without its mark a log loses the put at its last timestamp
lost_at_the_cutoff : survivors 3 None ((put_a ∷ []) ∷ []) ≡ []
lost_at_the_cutoff = refl

-- beside a log that is only a header nothing survives
lost_beside_a_header : survivors 0 None ((put_a ∷ mark_of 5 ∷ []) ∷ [] ∷ []) ≡ []
lost_beside_a_header = refl

-- a checkpoint that begins at 4, with an entry of key a
abbrev checkpoint : CheckpointReading
checkpoint = record { number = 1; begin = 4; end = 4; entries = entry_of 1 (97 ∷ []) ((0, 122 ∷ []) ∷ []) ∷ [] }

abbrev whole_a : Update
whole_a = record { key = 97 ∷ []; stamp = record { version = 1; origin = origins.Checkpoint }; timestamp = 0; kind = Whole ((0, 122 ∷ []) ∷ []) }

-- over it the put below 4 is lost and the put at 4 survives; the entry survives too, since no window tests it
over_a_checkpoint : survivors 5 (Some checkpoint) ((put_a ∷ mark_of 5 ∷ []) ∷ (put_b ∷ mark_of 6 ∷ []) ∷ []) ≡ update_b ∷ whole_a ∷ []
over_a_checkpoint = refl
