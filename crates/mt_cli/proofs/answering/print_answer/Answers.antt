use Rattle.std.proofs.Common.{sym, subst, List, ℕ}
use Rattle.std.specs.Io.KnownBytes.{Appends}
use Rattle.mt_words.specs.Walks.{Pair}
use Rattle.mt_cli.specs.Answers.{IsTextOf, IsAnswer}
use Rattle.mt_cli.specs.declared.request.StoreQuery.{StoreQuery}
use Rattle.mt_cli.proofs.answering.print_answer.Goals as goal

pub returns-in_ok-write_found-in-Get : goal.returns-in_ok-write_found-in-Get
returns-in_ok-write_found-in-Get g c =
    let old = g.O.Write.contents c.args.out.now in
    let new = g.O.Write.contents c.write_found.new.out in
    record {
      answered = subst
          (λ (query : StoreQuery). IsAnswer query c.args.recovered.now old new)
          (sym c.in-Get.is)
          (λ is. subst (λ (pairs : List Pair). (text : List ℕ) × IsTextOf c.in-Get.key pairs text × Appends old new text) c.store-store.ensures (c.in_ok-write_found-in-Get.ensures is));
    }
