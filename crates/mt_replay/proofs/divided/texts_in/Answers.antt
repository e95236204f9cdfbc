use Rattle.std.proofs.Common.{List, ◌++◌, ◌+◌, ◌≡◌, ◌∙◌, length, take, sym, ap, subst, arith}
use Rattle.std.specs.Prelude.{All, IsPermutation}
use Rattle.std.proofs.lemmas.List.{length-append, get_or-append-add}
use Rattle.std.proofs.lemmas.List.Elements.{filter-append}
use Rattle.std.proofs.lemmas.List.Sorted.{IsPermutation-trans, All-permutation}
use Rattle.std.proofs.lemmas.Result.{IfOk-weaker}
use Rattle.mt_words.specs.declared.update.Update.{Update}
use Rattle.mt_words.specs.Walks.{joined}
use Rattle.mt_replay.specs.Cuts.{in_piece, updates_in}
use Rattle.mt_replay.specs.Steps.Merging.{updates_of}
use Rattle.mt_replay.proofs.FilterLemmas.{alike_in_piece}
use Rattle.mt_replay.proofs.divided.texts_in.Goals as goal

pub sorted_texts-requires : goal.sorted_texts-requires
sorted_texts-requires c =
    let held : List Update = joined c.args.entries.now in
    let depth = c.shared_in-depth.result in
    let alike = alike_in_piece c.args.cuts.now c.args.piece (c.requires.0 ++ held) depth c.shared_in-depth.ensures in
    let part : List Update = updates_of c.in_ok-part.part in
    let texts : List Update = c.longest_in.new.texts.items in
    let Q : Update → Type 0 = λ u. take depth u.key ≡ alike.0 in
    let all : c.in_ok-texts.texts.items ++ updates_in c.args.cuts.now c.args.piece held ≡ updates_in c.args.cuts.now c.args.piece (c.requires.0 ++ held) =
    ap (λ (us : List Update). us ++ updates_in c.args.cuts.now c.args.piece held) (c.in_ok-texts.ensures ∙ c.requires.1) ∙ sym (filter-append (λ (u : Update). in_piece c.args.cuts.now c.args.piece u.key) c.requires.0 held) in
    let whole : All Q (part ++ texts) = All-permutation Q (c.in_ok-texts.texts.items ++ updates_in c.args.cuts.now c.args.piece held) (part ++ texts) c.in_ok-part.ensures (subst (All Q) (sym all) alike.1) in
    (alike.0, λ k d lt. subst Q (get_or-append-add part texts k d) (whole (length part + k) d (omega (arith, lt, length-append part texts))))

pub returns-clause-same : goal.returns-clause-same
returns-clause-same c =
    let part : List Update = updates_of c.in_ok-part.part in
    let texts : List Update = c.longest_in.new.texts.items in
    let own : List Update = updates_in c.args.cuts.now c.args.piece (joined c.args.entries.now) in
    IfOk-weaker c.sorted_texts.result _ _ (λ sorted. IsPermutation-trans (c.args.range.now ++ own) (part ++ texts) sorted.items
    (subst (λ (us : List Update). IsPermutation (us ++ own) (part ++ texts)) c.in_ok-texts.ensures c.in_ok-part.ensures)) c.sorted_texts.ensures.same
