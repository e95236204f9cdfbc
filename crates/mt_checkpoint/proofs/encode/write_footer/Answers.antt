use Rattle.std.proofs.KnownBytes.{Appends-trans}
use Rattle.std.proofs.lemmas.Result.{on_ok_weaker}
use Rattle.mt_checkpoint.proofs.encode.write_footer.Goals as goal

pub returns : goal.returns
returns g c =
    on_ok_weaker c.write_u32-2.result
    (λ count.
    let end = Appends-trans _ _ _ _ _ c.in_ok-write_u64.ensures.bytes count in
    Appends-trans _ _ _ _ _ c.in_ok-write_u32.ensures.bytes end)
    c.write_u32-2.ensures.bytes
