-- Tasks that are done, and what they make together.
use Rattle.std.proofs.Common.{◌≡◌, ℕ, zero, suc, List, [], ◌∷◌, length, map, IsPermutation, refl, sym, ap, subst, arith}
use Rattle.std.specs.Prelude.{Result, Ok, IfOk, replicate}
use Rattle.std.specs.List.{All, AllZip, enumerate_from, flat_map}
use Rattle.std.proofs.lemmas.List.Elements.{All-cons, All-nil, All-weaker}
use Rattle.mt_board.specs.Queue.{ConsumerView}
use Rattle.mt_words.specs.declared.fault.Memory.{Memory}
use Rattle.mt_words.specs.declared.update.Update.{Update}
use Rattle.mt_replay.specs.declared.window.Window.{Window}
use Rattle.mt_replay.specs.Batches.{BatchView}
use Rattle.mt_words.specs.Walks.{Pair, joined}
use Rattle.mt_replay.specs.Cells.{AreApart}
use Rattle.mt_replay.specs.Cuts.{AreCuts}
use Rattle.mt_replay.specs.Walk.{IsWalk}
use Rattle.mt_replay.specs.Pieces.{ArePieces}
use Rattle.mt_tree.specs.Borders.{DraftView, layer_walk}
use Rattle.mt_recover.specs.Steps.Preparing.{IsLeftBy, IsLeftOf}
use Rattle.mt_recover.specs.Steps.Replaying.{AreQueued, AreReplaysOf, IsReplayOf}
use Rattle.mt_recover.specs.Steps.Scanning.{AreAnswers}
use Rattle.mt_recover.specs.Tasks.{DivideView, ReplayingView, divide_task, replay_task, replay_tasks}
use Rattle.mt_recover.proofs.ReplayLemmas.{all_answered}
use Rattle.mt_recover.proofs.Replays.{all_replayed}
use Rattle.mt_recover.proofs.SharingLemmas.{all_answers, all_in_order}

-- if each task that is done is the task that it was, these are the tasks
pub tasks_done : {T : Type 0} (tasks : List T) (answers : List (Result T Memory)) (done : List T) → AllZip (λ task answer. IfOk answer (λ one. one ≡ task)) tasks answers → answers ≡ map Ok done → done ≡ tasks
tasks_done {T} tasks answers done each are = same tasks done (all_answered (λ task one. one ≡ task) tasks answers done each are)
  where
    same : (tasks done : List T) → AllZip (λ task one. one ≡ task) tasks done → done ≡ tasks
    same [] [] zip = refl
    same [] (d ∷ ds) zip = absurd zip
    same (t ∷ ts) [] zip = absurd zip
    same (t ∷ ts) (d ∷ ds) zip = λ i. zip.0 i ∷ same ts ds zip.1 i

-- what holds for the images of a list holds for the list
zip_of_map : {A B C : Type 0} (f : A → B) (R : B → C → Type 0) (xs : List A) (ys : List C) → AllZip R (map f xs) ys → AllZip (λ x y. R (f x) y) xs ys
zip_of_map f R [] [] zip = tt
zip_of_map f R [] (y ∷ ys) zip = absurd zip
zip_of_map f R (x ∷ xs) [] zip = absurd zip
zip_of_map f R (x ∷ xs) (y ∷ ys) zip = (zip.0, zip_of_map f R xs ys zip.1)

-- what all tasks left of their batches
pub left_of_tasks : (window : Window) (cuts : List (List ℕ)) (batches : List BatchView) (done : List DivideView) (left : List (ℕ × List (List Update))) → done ≡ map (divide_task window cuts) batches → AllZip IsLeftOf done left
    → AllZip (λ batch. IsLeftBy window cuts batch.updates) batches left
left_of_tasks window cuts batches done left are each = zip_of_map (divide_task window cuts) IsLeftOf batches left (subst (λ (tasks : List DivideView). AllZip IsLeftOf tasks left) are each)

-- what holds for equal tasks and what they did holds for each that was done
pub all_alike : {A B : Type 0} (R : A → B → Type 0) (a : A) (n : ℕ) (ys : List B) → AllZip R (replicate n a) ys → All (R a) ys × (length ys ≡ n)
all_alike R a zero [] zip = (All-nil (R a), refl)
all_alike R a zero (y ∷ ys) zip = absurd zip
all_alike R a (suc n) [] zip = absurd zip
all_alike R a (suc n) (y ∷ ys) zip = let more = all_alike R a n ys zip.1 in (All-cons (R a) y ys zip.0 more.0, omega (arith, more.1))

-- a task for each of these
pub same_tasks : {A B : Type 0} (a : A) (xs : List B) → map (λ _. a) xs ≡ replicate (length xs) a
same_tasks a [] = refl
same_tasks a (x ∷ xs) = ap (λ l. a ∷ l) (same_tasks a xs)

-- the drafts of all tasks, in order, are the pieces
pub pieces_of_tasks : {Y : Type 0} (items : Y → List (ℕ × DraftView)) (consumer : Y → ConsumerView (List Update)) (replaying : ReplayingView) (turns : List Y) (drafts : List DraftView) → AreQueued replaying
    → All (λ turn. AreReplaysOf (replay_task replaying) (items turn) (consumer turn)) turns → (length drafts ≡ length replaying.pieces.jobs) × IsPermutation (flat_map items turns) (enumerate_from 0 drafts)
    → AreApart replaying.prepared.updates → ArePieces replaying.prepared.updates replaying.prepared.cuts (map layer_walk drafts)
pieces_of_tasks items consumer replaying turns drafts queued each ordered apart =
    let cuts = replaying.prepared.cuts in
    let ranges = replaying.pieces.jobs in
    let R : ℕ → List Update → DraftView → Type 0 = λ piece range draft. IsReplayOf cuts replaying.entries piece range (layer_walk draft) in
    let answers = all_answers R ranges items turns (All-weaker (λ turn. AreReplaysOf (replay_task replaying) (items turn) (consumer turn)) (λ turn. AreAnswers R ranges (items turn)) (λ turn is. is.answers) turns each) in
    subst (λ (us : List Update). ArePieces us cuts (map layer_walk drafts)) queued.updates
    (all_replayed cuts ranges queued.ranges.are replaying.entries drafts (all_in_order R ranges (flat_map items turns) drafts answers ordered.1 ordered.0) (subst AreApart (sym queued.updates) apart))

-- joined, they are the walk of what was prepared
pub walk_of_tasks : {Y : Type 0} (items : Y → List (ℕ × DraftView)) (consumer : Y → ConsumerView (List Update)) (replaying : ReplayingView) (turns : List Y) (drafts : List DraftView) → AreQueued replaying
    → AllZip (λ task turn. AreReplaysOf task (items turn) (consumer turn)) (replay_tasks replaying) turns → (length drafts ≡ length replaying.pieces.jobs) × IsPermutation (flat_map items turns) (enumerate_from 0 drafts) → AreApart replaying.prepared.updates
    → ((updates : List Update) (cuts : List (List ℕ)) (pieces : List (List Pair)) → AreCuts cuts → ArePieces updates cuts pieces → IsWalk updates (joined pieces)) → IsWalk replaying.prepared.updates (joined (map layer_walk drafts))
walk_of_tasks items consumer replaying turns drafts queued each ordered apart make =
    let all = all_alike (λ task turn. AreReplaysOf task (items turn) (consumer turn)) (replay_task replaying) replaying.pieces.consumers turns each in
    make replaying.prepared.updates replaying.prepared.cuts (map layer_walk drafts) queued.ranges.cuts_are (pieces_of_tasks items consumer replaying turns drafts queued all.0 ordered apart)
