use Rattle.std.proofs.Common.{refl, sym, ◌∙◌, inl, inr, Some, None}
use Rattle.std.proofs.lemmas.Bool.{true≢false}
use Rattle.mt_words.proofs.KeyOrder.{not_both, not_itself}
use Rattle.mt_cli.proofs.Stretch.{below_along, starts_at}
use Rattle.mt_cli.proofs.request.Range.start.Goals as goal

pub returns-in-Some : goal.returns-in-Some
returns-in-Some c =
    let prefix = c.in-Some.prefix in
    let less = below_along _ _ _ _ c.as_bytes-from.ensures.value c.as_bytes.ensures.value (c.is_below.ensures.0 c.if-is_below.true) in
    starts_at c.args.self.now (Some prefix) _ prefix c.in-Some.is c.as_bytes-in-Some.ensures.value (inr c.in-Some.is) (not_both c.args.self.now.from prefix less) (not_itself prefix)

pub returns-in_default : goal.returns-in_default
returns-in_default c =
    let from = c.args.self.now.from in
    starts_at c.args.self.now (Some c.in-Some.prefix) _ from c.in-Some.is c.as_bytes-from.ensures.value (inl refl) (not_itself from)
    (λ less. true≢false (sym (c.is_below.ensures.1 (below_along _ _ _ _ (sym c.as_bytes-from.ensures.value) (sym c.as_bytes.ensures.value) less)) ∙ c.if-is_below.false))

pub returns-in_default-2 : goal.returns-in_default-2
returns-in_default-2 c =
    let from = c.args.self.now.from in
    starts_at c.args.self.now None _ from c.in_default.is c.as_bytes-from.ensures.value (inl refl) (not_itself from) tt
