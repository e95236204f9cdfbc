use Rattle.std.proofs.Common.{◌≡◌, ℕ, Option, Some, None, refl, subst}
use Rattle.std.specs.Prelude.{◌≢◌, IsSome, IfSome, IfNone, slice_index}
use Rattle.mt_words.specs.declared.code.Code.{Code}
use Rattle.mt_words.specs.Codes.{byte_of}
use Rattle.mt_record.specs.Decoding.{code_in}
use Rattle.mt_record.proofs.Decodes.{code_first, code_read}
use Rattle.mt_record.proofs.body.spelled.code.Goals as goal

-- a byte that some code has is found
is_found : (found : Option Code) (byte : ℕ) → IfNone found ((code : Code) → byte_of code ≢ byte) → (code : Code) → byte_of code ≡ byte → IsSome found
is_found (Some code) byte none known has = refl
is_found None byte none known has = absurd (none known has)

pub unwrap-requires : goal.unwrap-requires
unwrap-requires c = is_found c.of_byte.result (slice_index c.args.body.now 0) c.of_byte.ensures.none (code_in c.args.body.now) (code_first c.args.body.now c.requires)

pub returns : goal.returns
returns c = code_read c.unwrap.result c.args.body.now
    (subst (λ (found : Option Code). IfSome found (λ code. byte_of code ≡ slice_index c.args.body.now 0)) c.unwrap.ensures c.of_byte.ensures.found)
