-- What damage to logs of format 4 can change.
use Rattle.std.specs.Prelude.{◌≡◌, ℕ, ◌⊎◌, List, ◌∷◌, ◌++◌}
use Rattle.mt_crc.specs.Crc.{IsBurst}
use Rattle.mt_block.specs.declared.header.Header.{Header}
use Rattle.mt_block.specs.Blocks.{IsFile, LosesFew}
use Rattle.mt_record.specs.Opening.{IsSealed}

-- files of format 4 with one header, and the same blocks but for the last ones of one of them, at most two
pub record DifferAtTheEnd (file other : List ℕ) : Type 0 where
  pub header : Header
  pub bodies : List (List ℕ)
  pub others : List (List ℕ)
  pub end : List ℕ
  pub rest : List ℕ
  pub is_file : IsFile file header bodies end
  pub is_other : IsFile other header others rest
  pub few : LosesFew bodies others ⊎ LosesFew others bodies

-- the same logs, but for a burst of errors in one of format 4
pub record HasBurst (logs others : List (List ℕ)) : Type 0 where
  pub front : List (List ℕ)
  pub before : List ℕ
  pub after : List ℕ
  pub back : List (List ℕ)
  pub is : logs ≡ front ++ before ∷ back
  pub becomes : others ≡ front ++ after ∷ back
  pub sealed : IsSealed before
  pub burst : IsBurst before after
