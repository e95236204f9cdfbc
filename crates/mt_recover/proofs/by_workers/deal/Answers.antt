use Rattle.std.proofs.Common.{◌∷◌, [], ◌++◌, ◌∙◌, ◌-◌, ℕ, map, sym, ap, subst, append-nil, append_assoc, arith, rules}
use Rattle.std.specs.Prelude.{take, drop}
use Rattle.std.proofs.Math.Seq.{take-nil}
use Rattle.std.proofs.lemmas.List.{length-drop, length-set, take-append-drop}
use Rattle.mt_recover.specs.Steps.Scanning.{AreDealt}
use Rattle.mt_recover.proofs.SharingLemmas.{none_dealt, dealt_more}
use Rattle.mt_recover.proofs.by_workers.deal.Goals as goal

pub loop-job-init : goal.loop-job-init
loop-job-init g c =
    let made = c.in_ok-resize_with.ensures.items in
    let none = none_dealt (λ share. share.items) _ _ made.1 made.0 (λ p q share step. search rules) made.3 in
    record {
      some = omega (arith, c.in_ok-resize_with.ensures.len, c.resize_with.new.self.ok.0);
      few = omega (arith, c.in_ok-resize_with.ensures.len, c.resize_with.new.self.ok.0, c.max-count.ensures, c.min.ensures);
      dealt = ([], sym (append-nil c.args.jobs.items), subst (λ shares. AreDealt [] (map (λ share. share.items) shares)) (sym made.2) (rw (c.new-shares.ensures.items, take-nil) none));
    }

pub loop-job-preserved : goal.loop-job-preserved
loop-job-preserved g c =
    let I = c.loop-job.invariant in
    let shares = c.loop-job.shares.items in
    let cut : ℕ = c.loop-job.shares.len - 1 in
    record {
      some = omega (arith, length-set c.rotate_right.new.self.items 0 c.push_front.new.self, c.rotate_right.ensures.len, c.loop-job.shares.ok.0, c.rotate_right.new.self.ok.0, I.some);
      few = omega (arith, length-set c.rotate_right.new.self.items 0 c.push_front.new.self, c.rotate_right.ensures.len, c.loop-job.shares.ok.0, c.rotate_right.new.self.ok.0, I.few);
      dealt = (
        c.in-Some.job ∷ I.dealt.0,
        I.dealt.1 ∙ ap (λ js. js ++ I.dealt.0) c.in-Some.ensures.items ∙ append_assoc c.pop.new.self.items (c.in-Some.job ∷ []) I.dealt.0,
        dealt_more (λ share. share.items) c.in-Some.job I.dealt.0 (take cut shares) (drop cut shares) shares c.rotate_right.new.self.items c.index_mut.result.now c.push_front.new.self (sym (take-append-drop cut shares))
            (omega (arith, length-drop cut shares, c.loop-job.shares.ok.0, I.some)) c.rotate_right.ensures.items c.index_mut.ensures.value c.in_ok-push_front.ensures.items I.dealt.2,
      );
    }
