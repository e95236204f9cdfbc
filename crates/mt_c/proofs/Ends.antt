-- What follows the complete records of a log, in a file that is its own text.
use Rattle.std.proofs.Common.{◌≡◌, ◌∙◌, ◌==◌, ◌<◌, ◌≤◌, ◌^◌, ◌-◌, inl, inr, ℕ, Bool, true, false, true≢false, List, [], ◌∷◌, ◌++◌, length, take, drop, refl, sym, ap, subst, append_assoc, length-append, length-drop, eqb-true, arith}
use Rattle.std.specs.Prelude.{not}
use Rattle.std.specs.List.{flat_map}
use Rattle.std.proofs.lemmas.List.{take_all, nil_from_length}
use Rattle.std.proofs.Transfers.{drop-appended}
use Rattle.mt_words.specs.declared.limits.Format.{Format}
use Rattle.mt_words.specs.Limits.{limits_of}
use Rattle.mt_record.specs.declared.salvage.Items.TheVariants.{Records}
use Rattle.mt_record.specs.declared.salvage.Found.{Found}
use Rattle.mt_record.specs.Spelling.{spelling}
use Rattle.mt_record.specs.Heads.{head_bytes}
use Rattle.mt_record.specs.Opening.{IsSealed, Opens}
use Rattle.mt_record.specs.Logs.{LogReading, IsReading, log_bytes}
use Rattle.mt_record.specs.LogTexts.{front_in}
use Rattle.mt_record.specs.Salvage.{AreFound, StartsNowhere}
use Rattle.mt_record.proofs.Opened.{begins_sealed}
use Rattle.mt_c.specs.Endings.{GoOnBehind, GoesOn}

own : (bytes text : List ℕ) (torn : Bool) → (IsSealed bytes → ⊥) → Opens bytes text torn → text ≡ bytes
own bytes text torn plain (inl is) = is.0.1
own bytes text torn plain (inr is) = absurd (plain (begins_sealed bytes is.header is.bodies is.end is.is_file.begins))

-- the bytes are those of the log, and its tail
split : (bytes : List ℕ) (log : LogReading) → (IsSealed bytes → ⊥) → (is : IsReading bytes log) → bytes ≡ log_bytes log.head log.records ++ is.tail
split bytes log plain is =
    sym (own bytes is.text is.ended plain is.opens) ∙ is.is_log.spelled ∙ sym (append_assoc (head_bytes log.head) (flat_map spelling log.records) is.tail)

-- where the records end, by the front
pub end_of : (bytes : List ℕ) (log : LogReading) → length bytes < 2 ^ 64 → (IsSealed bytes → ⊥) → (is : IsReading bytes log)
    → ((front_in log).bytes ≡ length (log_bytes log.head log.records)) × ((front_in log).bytes ≤ length bytes)
end_of bytes log fits plain is =
    let all = log_bytes log.head log.records in
    let sizes = length-append all is.tail in
    let sum = ap length (split bytes log plain is) in
    (omega (arith, fits, sizes, sum), omega (arith, fits, sizes, sum))

-- what stands behind them
pub rest_is : (bytes : List ℕ) (log : LogReading) (end : ℕ) → length bytes < 2 ^ 64 → (IsSealed bytes → ⊥) → IsReading bytes log → end ≡ (front_in log).bytes
    → bytes ≡ log_bytes log.head log.records ++ take (length bytes - end) (drop end bytes)
rest_is bytes log end fits plain is same =
    let all = log_bytes log.head log.records in
    let s = split bytes log plain is in
    let tail : drop end bytes ≡ is.tail = ap (λ (n : ℕ). drop n bytes) (same ∙ (end_of bytes log fits plain is).0) ∙ drop-appended all bytes is.tail s in
    let long = length-drop end bytes in
    let behind : take (length bytes - end) (drop end bytes) ≡ drop end bytes = take_all (length bytes - end) (drop end bytes) (omega (arith, long)) in
    s ∙ ap (λ (rest : List ℕ). all ++ rest) (sym (behind ∙ tail))

behind : (format : Format) (rest : List ℕ) (found : List Found) → AreFound Records (limits_of format) rest found → (found ≡ [] → ⊥) → GoOnBehind format rest
behind format rest [] are some = absurd (some refl)
behind format rest (first ∷ others) (after, is, more) some = record { skipped = first.skipped.now; more = first.bytes.now ++ after; spelled = is.spelled; go_on = is.starts }

none_behind : (format : Format) (rest : List ℕ) (found : List Found) → AreFound Records (limits_of format) rest found → found ≡ [] → StartsNowhere Records (limits_of format) rest (length rest)
none_behind format rest [] are e = are
none_behind format rest (first ∷ others) are e = absurd (omega (arith, ap length e))

-- of two ways to split the bytes behind the log
one_rest : (bytes all one other : List ℕ) → bytes ≡ all ++ one → bytes ≡ all ++ other → one ≡ other
one_rest bytes all one other e f = sym (drop-appended all bytes one e) ∙ drop-appended all bytes other f

-- nothing is found behind the log
goes_not_on : (bytes : List ℕ) (log : LogReading) (rest : List ℕ) (found : List Found) → (IsSealed bytes → ⊥) → bytes ≡ log_bytes log.head log.records ++ rest
    → AreFound Records (limits_of log.head.format) rest found → found ≡ [] → GoesOn bytes log false
goes_not_on bytes log rest found plain e are none = record {
  sealed = λ is. refl;
  on = λ other _ f told. absurd (true≢false (sym told));
  nowhere = λ other _ f told. subst (λ (r : List ℕ). StartsNowhere Records (limits_of log.head.format) r (length r)) (one_rest bytes (log_bytes log.head log.records) rest other e f)
      (none_behind log.head.format rest found are none);
}

-- records are found there
goes_on : (bytes : List ℕ) (log : LogReading) (rest : List ℕ) (found : List Found) → (IsSealed bytes → ⊥) → bytes ≡ log_bytes log.head log.records ++ rest
    → AreFound Records (limits_of log.head.format) rest found → (found ≡ [] → ⊥) → GoesOn bytes log true
goes_on bytes log rest found plain e are some = record {
  sealed = λ is. absurd (plain is);
  on = λ other _ f told. subst (λ (r : List ℕ). GoOnBehind log.head.format r) (one_rest bytes (log_bytes log.head log.records) rest other e f)
      (behind log.head.format rest found are some);
  nowhere = λ other _ f told. absurd (true≢false told);
}

-- whether records are found there
pub goes_on_if : (bytes : List ℕ) (log : LogReading) (rest : List ℕ) (found : List Found) (empty : Bool) → (IsSealed bytes → ⊥) → bytes ≡ log_bytes log.head log.records ++ rest
    → AreFound Records (limits_of log.head.format) rest found → empty ≡ (length found == 0) → GoesOn bytes log (not empty)
goes_on_if bytes log rest found true plain e are same = goes_not_on bytes log rest found plain e are (nil_from_length found (eqb-true (length found) 0 (sym same)))
goes_on_if bytes log rest found false plain e are same =
    goes_on bytes log rest found plain e are (λ none. absurd (true≢false (sym (same ∙ ap (λ (f : List Found). length f == 0) none))))
