-- What a query prints of a recovered store, in the form of the dump, or of its report.
use Rattle.std.specs.Prelude.{◌≡◌, ◌⊎◌, ◌++◌, Option, None, List, ℕ, Contains, codes, decimal, false}
use Rattle.std.specs.Io.KnownBytes.{Keeps, Appends}
use Rattle.mt_words.specs.Walks.{Pair}
use Rattle.mt_text.specs.Forms.{IsDump, absent_text}
use Rattle.mt_text.specs.Pairs.{pair_text, dump_text}
use Rattle.mt_recover.specs.Report.{Outcome}
use Rattle.mt_recover.specs.ReportText.{report_text}
use Rattle.mt_cli.specs.Ranges.{range_of}
use Rattle.mt_cli.specs.declared.request.StoreQuery.{StoreQuery}
use Rattle.mt_cli.specs.declared.request.StoreQuery.TheVariants as queries

-- the text of the key's pair, or that it is absent
abbrev pub IsTextOf : List ℕ → List Pair → List ℕ → Type 0
IsTextOf key pairs text =
    ((columns : List (ℕ × List ℕ)) × Contains pairs (key, columns) × (text ≡ pair_text (key, columns)))
    ⊎ (((columns : List (ℕ × List ℕ)) → Contains pairs (key, columns) → ⊥) × (text ≡ absent_text))

-- what the query adds to an output; of pairs in another form, some columns, or the report in JSON nothing is said
abbrev pub IsAnswer : StoreQuery → Outcome → Option (List ℕ) → Option (List ℕ) → Type 0
IsAnswer (queries.Report is_json is_strict) recovered old new = is_json ≡ false → Appends old new (report_text recovered.report)
IsAnswer (queries.Get key form) recovered old new = IsDump form → (text : List ℕ) × IsTextOf key recovered.store text × Appends old new text
IsAnswer (queries.Exists key) recovered old new = Keeps old new
IsAnswer (queries.Range range form) recovered old new = IsDump form → range.columns ≡ None → Appends old new (dump_text (range_of range recovered.store))
IsAnswer (queries.Dump form) recovered old new = IsDump form → Appends old new (dump_text recovered.store)
IsAnswer queries.Count recovered old new = Appends old new (decimal recovered.report.keys ++ codes "\n")
