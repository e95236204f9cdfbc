-- Records that were sealed in small blocks, and then marks.
use Rattle.std.proofs.Common.{◌≡◌, inl, ℕ, List, [], ◌∷◌, ◌++◌, refl, sym, ap, ◌∙◌}
use Rattle.std.specs.Prelude.{All}
use Rattle.std.proofs.lemmas.List.{append-nil}
use Rattle.std.proofs.lemmas.Grind.{flat_map-append}
use Rattle.mt_block.specs.declared.header.Header.{Header}
use Rattle.mt_block.specs.Blocks.{IsHeader, header_bytes, mark_of, block, blocks, IsBody, IsFile}
use Rattle.mt_block.proofs.Seals.{joined_more, blocks_more, all_more}
use Rattle.mt_record.specs.Opening.{joined}
use Rattle.mt_record.specs.Runs.{IsSmall}
use Rattle.mt_record.specs.Steps.Runs.{AreSmallBlocks}

pub joined-append : (bodies others : List (List ℕ)) → joined (bodies ++ others) ≡ joined bodies ++ joined others
joined-append bodies others = flat_map-append (λ body. body) bodies others

-- a header, records in small blocks, and a block of marks are a file
pub sealed_file : (header : Header) (mark : ℕ) (begun records marks sealed more both : List ℕ) → IsHeader header → mark ≡ mark_of header → begun ≡ header_bytes header
    → AreSmallBlocks mark records sealed → more ≡ begun ++ sealed → IsBody marks → IsSmall marks → both ≡ more ++ block mark marks
    → (bodies : List (List ℕ)) × IsFile both header bodies [] × (joined bodies ≡ records ++ marks) × All IsSmall bodies
sealed_file header mark begun records marks sealed more both is_header is_mark begins are then is_body is_small last =
    let bodies = are.bodies ++ marks ∷ [] in
    let all : both ≡ begun ++ blocks mark bodies = blocks_more mark begun more both are.bodies marks (then ∙ ap (λ (l : List ℕ). begun ++ l) are.spelled) last in (
      bodies,
      record {
        begins = record {
          spelled = all ∙ (λ i. begins i ++ (ap (λ (m : ℕ). blocks m bodies) is_mark ∙ sym (append-nil (blocks (mark_of header) bodies))) i);
          is_header = is_header;
          are_bodies = all_more IsBody are.bodies marks are.are_bodies is_body;
        };
        ends = inl refl;
      },
      joined_more are.bodies marks ∙ ap (λ (l : List ℕ). l ++ marks) are.joins,
      all_more IsSmall are.bodies marks are.are_small is_small,
    )
