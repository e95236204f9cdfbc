-- The known bytes of a source, and the bytes that it may have.
use Rattle.std.proofs.Common.{◌∙◌, List, ℕ, [], ◌++◌, Option, Some, None, refl, sym, ap, append_assoc}
use Rattle.std.proofs.lemmas.List.{append-nil}
use Rattle.std.specs.Io.KnownBytes.{Consumes, IsAtEnd}
use Rattle.mt_scan.specs.Sources.{Agrees}

-- for every source there are some bytes that it may have
pub some_bytes : (told : Option (List ℕ)) → (bytes : List ℕ) × Agrees told bytes
some_bytes None = ([], tt)
some_bytes (Some told) = (told, refl)

-- bytes that were returned are the front of some bytes that the source may have
pub handed_out : (before after : Option (List ℕ)) (piece : List ℕ) → Consumes before after piece → (more : List ℕ) × Agrees before (piece ++ more)
handed_out None after piece h = ([], tt)
handed_out (Some told) None piece h = absurd h
handed_out (Some told) (Some left) piece h = (left, h)

-- returning one chunk and then another returns both, joined
pub goes_on : (first next last : Option (List ℕ)) (front piece : List ℕ) → Consumes first next front → Consumes next last piece → Consumes first last (front ++ piece)
goes_on None next last front piece h k = tt
goes_on (Some told) None last front piece h k = absurd h
goes_on (Some told) (Some left) None front piece h k = absurd k
goes_on (Some told) (Some left) (Some rest) front piece h k = h ∙ ap (λ (x : List ℕ). front ++ x) k ∙ sym (append_assoc front piece rest)

-- at the end, all bytes were returned
pub all_handed_out : (before after : Option (List ℕ)) (bytes : List ℕ) → Consumes before after bytes → IsAtEnd after → Agrees before bytes
all_handed_out None after bytes h e = tt
all_handed_out (Some told) None bytes h e = absurd h
all_handed_out (Some told) (Some left) bytes h e = h ∙ ap (λ (x : List ℕ). bytes ++ x) e ∙ append-nil bytes
