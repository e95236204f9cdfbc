use Rattle.std.proofs.Common.{◌≡◌, ◌∙◌, ◌++◌, ◌∷◌, [], List, map, ap, sym, subst}
use Rattle.std.specs.List.{All}
use Rattle.std.proofs.lemmas.List.{map-append}
use Rattle.std.proofs.lemmas.List.Elements.{All-push}
use Rattle.mt_tree.specs.Borders.{layer_walk}
use Rattle.mt_recover.specs.declared.haul.Piece.{Piece}
use Rattle.mt_recover.specs.Job.{JobView, IsPieceOf}
use Rattle.mt_recover.proofs.Assembles.{IsHeldBy}
use Rattle.mt_recover.proofs.Works.{drew_on}
use Rattle.mt_recover.proofs.working.work.Goals as goal

pub loop-number-preserved : goal.loop-number-preserved
loop-number-preserved g c =
    let I = c.loop-number.invariant in
    let held : List Piece = c.loop-number.pieces.items in
    let piece : Piece = record { number = c.in-Some.number; draft = c.in_ok-draft.draft } in
    let pushed : c.push.new.self.items ≡ held ++ piece ∷ [] = c.in_ok-push.ensures.items in
    let one : IsHeldBy c.args.job.now piece = subst (λ (job : JobView). IsPieceOf job piece.number (layer_walk piece.draft)) c.job.view_is (c.in-Some.ensures.below, c.in_ok-draft.ensures) in record {
      pass = drew_on _ _ _ (map (λ (p : Piece). p.number) held) _ c.in-Some.number I.pass c.in-Some.ensures.pass (ap (map (λ (p : Piece). p.number)) pushed ∙ map-append (λ (p : Piece). p.number) held (piece ∷ []));
      pieces = subst (All (IsHeldBy c.args.job.now)) (sym pushed) (All-push (IsHeldBy c.args.job.now) held piece I.pieces one);
    }
