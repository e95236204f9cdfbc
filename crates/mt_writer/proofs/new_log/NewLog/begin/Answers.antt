use Rattle.std.proofs.Common.{◌≡◌, ◌++◌, ℕ, List, ap, refl, sym, ◌∙◌, subst, arith, rules}
use Rattle.mt_words.specs.Changes.{Logged}
use Rattle.mt_block.specs.Blocks.{header_bytes, mark_of as mark_in, block}
use Rattle.mt_record.specs.Spelling.{spelling}
use Rattle.mt_writer.proofs.new_log.NewLog.begin.Goals as goal

pub returns-clause-begins : goal.returns-clause-begins
returns-clause-begins c =
    let record_bytes = c.deref.ensures.value ∙ c.in_ok-encode_record.ensures.ok ∙ (λ i. c.new-record.ensures.items i ++ spelling (c.mark.ensures i)) in record {
      text = refl;
      is_header = record { salt = search rules; worker = search rules; segment = search rules; workers = search rules; from = search rules };
      claim = omega (arith, c.max-mark.ensures);
      fits = c.max-mark.type_inv;
      bytes = c.in_ok-append_block.ensures.ok ∙ (λ i. c.in_ok-bytes.ensures i ++ block (c.mark-2.ensures i) (record_bytes i));
    }
