-- Writes are lawful exactly if the columns or numbers that they are made of are lawful.
use Rattle.std.proofs.Common.{ℕ, suc, ◌≤◌, List, [], ◌∷◌, map}
use Rattle.std.specs.List.{AllByRecursion}
use Rattle.mt_words.specs.declared.limits.Limits.{Limits}
use Rattle.mt_words.specs.Words.{IsColumn, AreColumns, AreNumbers, NumbersRise, Rise}
use Rattle.mt_words.specs.Changes.{Write, set, erased}
use Rattle.mt_words.specs.Writes.{IsWrite, AreWrites}

abbrev RiseOf : ℕ → List Write → Type 0
RiseOf low writes = Rise low (map (λ write. write.0) writes)

pub set_writes : (limits : Limits) (cs : List (ℕ × List ℕ)) → AreColumns limits cs → AreWrites limits (map set cs)
set_writes limits cs are = (all cs are.0, rise 0 cs are.1)
  where
    all : (cs : List (ℕ × List ℕ)) → AllByRecursion (IsColumn limits) cs → AllByRecursion (IsWrite limits) (map set cs)
    all [] is = tt
    all (c ∷ cs) is = (is.0, all cs is.1)

    rise : (low : ℕ) (cs : List (ℕ × List ℕ)) → NumbersRise low cs → RiseOf low (map set cs)
    rise low [] is = tt
    rise low (c ∷ cs) is = (is.0, rise (suc c.0) cs is.1)

pub set_columns : (limits : Limits) (cs : List (ℕ × List ℕ)) → AreWrites limits (map set cs) → AreColumns limits cs
set_columns limits cs are = (all cs are.0, rise 0 cs are.1)
  where
    all : (cs : List (ℕ × List ℕ)) → AllByRecursion (IsWrite limits) (map set cs) → AllByRecursion (IsColumn limits) cs
    all [] is = tt
    all (c ∷ cs) is = (is.0, all cs is.1)

    rise : (low : ℕ) (cs : List (ℕ × List ℕ)) → RiseOf low (map set cs) → NumbersRise low cs
    rise low [] is = tt
    rise low (c ∷ cs) is = (is.0, rise (suc c.0) cs is.1)

pub erase_writes : (limits : Limits) (ns : List ℕ) → AreNumbers limits ns → AreWrites limits (map erased ns)
erase_writes limits ns are = (all ns are.0, rise 0 ns are.1)
  where
    all : (ns : List ℕ) → AllByRecursion (λ number. number ≤ limits.column) ns → AllByRecursion (IsWrite limits) (map erased ns)
    all [] is = tt
    all (n ∷ ns) is = ((is.0, tt), all ns is.1)

    rise : (low : ℕ) (ns : List ℕ) → Rise low ns → RiseOf low (map erased ns)
    rise low [] is = tt
    rise low (n ∷ ns) is = (is.0, rise (suc n) ns is.1)

pub erase_numbers : (limits : Limits) (ns : List ℕ) → AreWrites limits (map erased ns) → AreNumbers limits ns
erase_numbers limits ns are = (all ns are.0, rise 0 ns are.1)
  where
    all : (ns : List ℕ) → AllByRecursion (IsWrite limits) (map erased ns) → AllByRecursion (λ number. number ≤ limits.column) ns
    all [] is = tt
    all (n ∷ ns) is = (is.0.0, all ns is.1)

    rise : (low : ℕ) (ns : List ℕ) → RiseOf low (map erased ns) → Rise low ns
    rise low [] is = tt
    rise low (n ∷ ns) is = (is.0, rise (suc n) ns is.1)
