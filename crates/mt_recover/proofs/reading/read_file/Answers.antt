use Rattle.std.proofs.Common.{◌≡◌, ◌∙◌, ◌+◌, ◌≤◌, ℕ, List, length, take, sym, ap, arith}
use Rattle.std.specs.Prelude.{Option, Some, None, IfSome}
use Rattle.std.specs.Option.{option_map}
use Rattle.std.proofs.lemmas.List.{length-take, take_all}
use Rattle.mt_scan.specs.Sources.{Agrees}
use Rattle.mt_recover.proofs.reading.read_file.Goals as goal

-- up to limit + 1 bytes were read; if they are at most the limit, they are all bytes of the reader
all_read : (told : Option (List ℕ)) (limit : ℕ) (bytes : List ℕ) → IfSome (option_map (take (limit + 1)) told) (λ xs. bytes ≡ xs) → length bytes ≤ limit → Agrees told bytes
all_read None limit bytes read few = tt
all_read (Some xs) limit bytes read few =
    let short : length xs ≤ limit + 1 = omega (arith, few, ap length read, length-take (limit + 1) xs) in
    sym (read ∙ take_all (limit + 1) xs short)

pub returns-clause-whole : goal.returns-clause-whole
returns-clause-whole g c =
    all_read (g.F.Read.remaining c.args.file) 1073741824 c.read_to_end.new.buf.items
    (rw (c.take.ensures.inner, c.take.ensures.limit, c.in_ok-bytes.ensures.items) at c.in_ok-count.ensures.bytes)
    (omega (arith, c.in_ok-count.ensures.ok, c.if-count-gt-MOST_BYTES.false, c.in_ok-bytes.ensures.len, c.read_to_end.new.buf.ok.0))
