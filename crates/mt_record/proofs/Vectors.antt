-- Byte strings worked out by hand, compared with the definitions.
use Rattle.std.proofs.Common.{◌≡◌, [], ◌∷◌, ◌++◌, refl}
use Rattle.std.specs.List.{flat_map}
use Rattle.mt_words.specs.declared.limits.Format.TheVariants.{One, Two}
use Rattle.mt_words.specs.Limits.{limits_of}
use Rattle.mt_words.specs.Built.{mark_of, erase_of, put_of, remove_of, entry_of}
use Rattle.mt_record.specs.Spelling.{spelling, longest_record, longest_change}
use Rattle.mt_record.specs.Heads.{head_bytes}
use Rattle.mt_record.specs.Encoding.{head_of, segment_head}
use Rattle.mt_record.specs.Parts.{part_head, part_bytes}

-- the longest body of format 1, and the longest change
longest_is_number : longest_record (limits_of One) ≡ 1049652
longest_is_number = refl

longest_change_is_number : longest_change (limits_of One) ≡ 1049643
longest_change_is_number = refl

-- a log without records, with `from` 4
header_alone : head_bytes (head_of One 4) ≡ 77 ∷ 84 ∷ 76 ∷ 49 ∷ 0 ∷ 0 ∷ 0 ∷ 0 ∷ 0 ∷ 0 ∷ 0 ∷ 4 ∷ []
header_alone = refl

-- a log: a put of key "a" at timestamp 3 with column 0 = "x", and a mark at 5
put_and_mark : head_bytes (head_of One 0) ++ (flat_map spelling (put_of 3 1 (97 ∷ []) ((0, 120 ∷ []) ∷ []) ∷ mark_of 5 ∷ []) ++ [])
    ≡ 77 ∷ 84 ∷ 76 ∷ 49 ∷ 0 ∷ 0 ∷ 0 ∷ 0 ∷ 0 ∷ 0 ∷ 0 ∷ 0
    ∷ 0 ∷ 0 ∷ 0 ∷ 25 ∷ 1 ∷ 0 ∷ 0 ∷ 0 ∷ 0 ∷ 0 ∷ 0 ∷ 0 ∷ 3 ∷ 0 ∷ 0 ∷ 0 ∷ 0 ∷ 0 ∷ 0 ∷ 0 ∷ 1 ∷ 0 ∷ 1 ∷ 97 ∷ 1 ∷ 0 ∷ 0 ∷ 1 ∷ 120 ∷ 0 ∷ 0 ∷ 0 ∷ 25
    ∷ 0 ∷ 0 ∷ 0 ∷ 9 ∷ 3 ∷ 0 ∷ 0 ∷ 0 ∷ 0 ∷ 0 ∷ 0 ∷ 0 ∷ 5 ∷ 0 ∷ 0 ∷ 0 ∷ 9 ∷ []
put_and_mark = refl

-- a log: a put of key "b" at timestamp 4 with column 0 = "y", and a mark at 6
other_put_and_mark : head_bytes (head_of One 0) ++ (flat_map spelling (put_of 4 1 (98 ∷ []) ((0, 121 ∷ []) ∷ []) ∷ mark_of 6 ∷ []) ++ [])
    ≡ 77 ∷ 84 ∷ 76 ∷ 49 ∷ 0 ∷ 0 ∷ 0 ∷ 0 ∷ 0 ∷ 0 ∷ 0 ∷ 0
    ∷ 0 ∷ 0 ∷ 0 ∷ 25 ∷ 1 ∷ 0 ∷ 0 ∷ 0 ∷ 0 ∷ 0 ∷ 0 ∷ 0 ∷ 4 ∷ 0 ∷ 0 ∷ 0 ∷ 0 ∷ 0 ∷ 0 ∷ 0 ∷ 1 ∷ 0 ∷ 1 ∷ 98 ∷ 1 ∷ 0 ∷ 0 ∷ 1 ∷ 121 ∷ 0 ∷ 0 ∷ 0 ∷ 25
    ∷ 0 ∷ 0 ∷ 0 ∷ 9 ∷ 3 ∷ 0 ∷ 0 ∷ 0 ∷ 0 ∷ 0 ∷ 0 ∷ 0 ∷ 6 ∷ 0 ∷ 0 ∷ 0 ∷ 9 ∷ []
other_put_and_mark = refl

-- a put with the columns 0 and 1
put_of_two_columns : spelling (put_of 1 1 (107 ∷ []) ((0, 65 ∷ []) ∷ (1, 66 ∷ []) ∷ []))
    ≡ 0 ∷ 0 ∷ 0 ∷ 29 ∷ 1 ∷ 0 ∷ 0 ∷ 0 ∷ 0 ∷ 0 ∷ 0 ∷ 0 ∷ 1 ∷ 0 ∷ 0 ∷ 0 ∷ 0 ∷ 0 ∷ 0 ∷ 0 ∷ 1 ∷ 0 ∷ 1 ∷ 107 ∷ 2 ∷ 0 ∷ 0 ∷ 1 ∷ 65 ∷ 1 ∷ 0 ∷ 1 ∷ 66 ∷ 0 ∷ 0 ∷ 0 ∷ 29 ∷ []
put_of_two_columns = refl

-- a remove
remove : spelling (remove_of 11 6 (107 ∷ [])) ≡ 0 ∷ 0 ∷ 0 ∷ 20 ∷ 2 ∷ 0 ∷ 0 ∷ 0 ∷ 0 ∷ 0 ∷ 0 ∷ 0 ∷ 11 ∷ 0 ∷ 0 ∷ 0 ∷ 0 ∷ 0 ∷ 0 ∷ 0 ∷ 6 ∷ 0 ∷ 1 ∷ 107 ∷ 0 ∷ 0 ∷ 0 ∷ 20 ∷ []
remove = refl

-- a part of checkpoint 1, which begins at 2 and ends at 4, with one entry: key "a" with the columns 0 and 1
part_of_one_entry : part_bytes (part_head One 1 2 0 1) (entry_of 1 (97 ∷ []) ((0, 111 ∷ []) ∷ (1, 112 ∷ []) ∷ []) ∷ []) 4
    ≡ 77 ∷ 84 ∷ 67 ∷ 49 ∷ 0 ∷ 0 ∷ 0 ∷ 1 ∷ 0 ∷ 0 ∷ 0 ∷ 0 ∷ 0 ∷ 0 ∷ 0 ∷ 2 ∷ 0 ∷ 0 ∷ 0 ∷ 1
    ∷ 0 ∷ 0 ∷ 0 ∷ 20 ∷ 0 ∷ 0 ∷ 0 ∷ 0 ∷ 0 ∷ 0 ∷ 0 ∷ 1 ∷ 0 ∷ 1 ∷ 97 ∷ 2 ∷ 0 ∷ 0 ∷ 1 ∷ 111 ∷ 1 ∷ 0 ∷ 1 ∷ 112 ∷ 0 ∷ 0 ∷ 0 ∷ 20
    ∷ 0 ∷ 0 ∷ 0 ∷ 0 ∷ 0 ∷ 0 ∷ 0 ∷ 0 ∷ 0 ∷ 0 ∷ 0 ∷ 4 ∷ 0 ∷ 0 ∷ 0 ∷ 1 ∷ []
part_of_one_entry = refl

-- ---- format 2

longest_is_number_2 : longest_record (limits_of Two) ≡ 4198548
longest_is_number_2 = refl

longest_change_is_number_2 : longest_change (limits_of Two) ≡ 4198539
longest_change_is_number_2 = refl

header_alone_2 : head_bytes (head_of Two 0) ≡ 77 ∷ 84 ∷ 76 ∷ 50 ∷ 0 ∷ 0 ∷ 0 ∷ 0 ∷ 0 ∷ 0 ∷ 0 ∷ 0 ∷ []
header_alone_2 = refl

-- a segment without records: segment 0 of worker 7
header_alone_3 : head_bytes (segment_head 0 7 0) ≡ 77 ∷ 84 ∷ 76 ∷ 51 ∷ 0 ∷ 0 ∷ 0 ∷ 0 ∷ 0 ∷ 0 ∷ 0 ∷ 0 ∷ 0 ∷ 0 ∷ 0 ∷ 7 ∷ 0 ∷ 0 ∷ 0 ∷ 0 ∷ []
header_alone_3 = refl

-- an erase of column 0 of "k" at version 2 and timestamp 2
one_erase : spelling (erase_of 2 2 (107 ∷ []) (0 ∷ []))
    ≡ 0 ∷ 0 ∷ 0 ∷ 22 ∷ 4 ∷ 0 ∷ 0 ∷ 0 ∷ 0 ∷ 0 ∷ 0 ∷ 0 ∷ 2 ∷ 0 ∷ 0 ∷ 0 ∷ 0 ∷ 0 ∷ 0 ∷ 0 ∷ 2 ∷ 0 ∷ 1 ∷ 107 ∷ 1 ∷ 0 ∷ 0 ∷ 0 ∷ 0 ∷ 22 ∷ []
one_erase = refl
