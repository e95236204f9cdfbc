use Rattle.std.proofs.Common.{◌≡◌, ◌∙◌, ◌++◌, [], ◌∷◌, true, List, length, ap, sym, arith, rules}
use Rattle.mt_words.specs.declared.update.Origin.{Origin}
use Rattle.mt_words.specs.declared.update.Update.{Update}
use Rattle.mt_record.specs.Decoding.{update_in}
use Rattle.mt_replay.specs.Cuts.{in_piece}
use Rattle.mt_replay.specs.Survivors.{in_window}
use Rattle.mt_replay.proofs.DealLemmas.{dealt_length, survivor_dealt}
use Rattle.mt_replay.proofs.dealing.deal.Goals as goal

pub bounds-lists-piece : goal.bounds-lists-piece
bounds-lists-piece c =
    omega (arith, c.piece_of-piece.ensures.within, dealt_length c.args.cuts.now c.requires.dealt.0, ap (λ (ls : List (List Update)). length ls) c.requires.dealt.1)

pub returns : goal.returns
returns c = λ dealt are.
    let u : Update = c.in-Some.update in
    let survives : in_window c.args.window u ≡ true = search rules in
    let says : update_in c.origin.result c.body.result.now ≡ u = ap (λ (o : Origin). update_in o c.body.result.now) c.origin.ensures ∙ c.body.ensures.says in
    survivor_dealt c.args.cuts.now c.args.window dealt c.args.update u c.piece_of-piece.result c.args.lists.now c.index-lists-piece.result c.push.new.self c.requires.lawful.0 c.piece_of-piece.ensures.within
    (ap (in_piece c.args.cuts.now c.piece_of-piece.result) (sym c.key.ensures.value) ∙ c.piece_of-piece.ensures.piece)
    c.in-Some.is survives are c.index-lists-piece.is
    (c.in_ok-push.ensures.ok ∙ (λ j. sym c.index-lists-piece.is j ++ says j ∷ []))
