-- Tasks of a job, in their places.
use Rattle.std.proofs.Common.{◌≡◌, ◌∙◌, ◌+◌, ◌<◌, ℕ, zero, suc, List, [], ◌∷◌, ◌++◌, length, map, Option, Some, None, replicate, refl, sym, ap, append-nil, arith, true≢false}
use Rattle.std.specs.Prelude.{Bool, true, false, not, is_some, IfSome, IsSome, IsTrue, slice_get, slice_index_or, slice_set}
use Rattle.std.specs.List.{All, AllZip, cons_option, filter_map}
use Rattle.std.proofs.lemmas.List.{length-append}
use Rattle.std.proofs.lemmas.List.Elements.{All-head, All-tail, filter_map-append}
use Rattle.std.proofs.lemmas.Slice.Zip.{AllZip-long}
use Rattle.mt_recover.specs.Tasks.{DivideView, ReplayView}
use Rattle.mt_c.specs.declared.task.Task.{Task}
use Rattle.mt_c.specs.declared.task.Task.TheVariants as tasks
use Rattle.mt_c.specs.declared.job.Step.{Step}
use Rattle.mt_c.specs.declared.job.Step.TheVariants as steps
use Rattle.mt_c.specs.Jobs.{IsDoneIn, JobView, done_of, tasks_of}
use Rattle.mt_c.specs.Steps.{IsBackIn, IsJob, divided, replayed}

-- at first no place has a task
pub none_back : (all : List Task) → AllZip IsBackIn all (replicate (length all) None)
none_back [] = tt
none_back (t ∷ ts) = (tt, none_back ts)

-- one more task is back in its place
pub one_back : (all : List Task) (places : List (Option Task)) (number : ℕ) (back : Task) → AllZip IsBackIn all places → done_of back ≡ back → IfSome (slice_get all number) (λ task. done_of back ≡ done_of task) → AllZip IsBackIn all (slice_set places number (Some back))
one_back [] [] number back zip done is = tt
one_back [] (p ∷ ps) number back zip done is = absurd zip
one_back (t ∷ ts) [] number back zip done is = absurd zip
one_back (t ∷ ts) (p ∷ ps) zero back zip done is = (sym done ∙ is, zip.1)
one_back (t ∷ ts) (p ∷ ps) (suc number) back zip done is = (zip.0, one_back ts ps number back zip.1 done is)

-- a task that is done stays as it is
pub done_stays : (step : Step) (task : Task) → IsDoneIn step task → done_of task ≡ task
done_stays (steps.Dividing d) (tasks.Divided t) is = refl
done_stays (steps.Replaying r) (tasks.Replayed t) is = refl
done_stays step task is = absurd is

-- what stands at a place
pub place_at : (places : List (Option Task)) (number : ℕ) (place : Option Task) → number < length places → place ≡ slice_index_or places number place → slice_get places number ≡ Some place
place_at [] number place within is = absurd (omega (arith, within))
place_at (p ∷ ps) zero place within is = ap Some (sym is)
place_at (p ∷ ps) (suc number) place within is = place_at ps number place (omega (arith, within)) is

-- whether there is no task
pub none_if : (place : Option Task) (test : Bool) → is_some place ≡ not test → IsTrue test → place ≡ None
none_if None test is holds = refl
none_if (Some t) true is holds = absurd cc
none_if (Some t) false is holds = absurd cc

pub true_if : (place : Option Task) (test : Bool) → is_some place ≡ not test → Some place ≡ Some None → IsTrue test
true_if None true is none = refl
true_if None false is none = absurd cc
true_if (Some t) test is none = absurd cc

-- one more task is kept, or none
pub one_kept : {Y : Type 0} (h : Option Task → Option Y) (done new : List Y) (yielded : List (Option Task)) (place : Option Task) (y : Y) → done ≡ filter_map h yielded → h place ≡ Some y → new ≡ done ++ y ∷ [] → new ≡ filter_map h (yielded ++ place ∷ [])
one_kept h done new yielded place y are is pushed = pushed ∙ (λ i. are i ++ cons_option (sym is i) []) ∙ sym (filter_map-append h yielded (place ∷ []))

pub none_kept : {Y : Type 0} (h : Option Task → Option Y) (done : List Y) (yielded : List (Option Task)) (place : Option Task) → done ≡ filter_map h yielded → h place ≡ None → done ≡ filter_map h (yielded ++ place ∷ [])
none_kept h done yielded place are is = sym (append-nil done) ∙ (λ i. are i ++ cons_option (sym is i) []) ∙ sym (filter_map-append h yielded (place ∷ []))

-- if all are back, each has divided
pub all_divided : (all : List DivideView) (places : List (Option Task)) → AllZip IsBackIn (map tasks.Divide all) places → All IsSome places → filter_map divided places ≡ all
all_divided [] [] zip back = refl
all_divided [] (p ∷ ps) zip back = absurd zip
all_divided (t ∷ ts) [] zip back = absurd zip
all_divided (t ∷ ts) (None ∷ ps) zip back = absurd (true≢false (sym (All-head IsSome None ps back)))
all_divided (t ∷ ts) (Some p ∷ ps) zip back = rw (zip.0) (ap (λ rest. t ∷ rest) (all_divided ts ps zip.1 (All-tail IsSome (Some p) ps back)))

-- or has replayed
pub all_replayed : (all : List ReplayView) (places : List (Option Task)) → AllZip IsBackIn (map tasks.Replay all) places → All IsSome places → filter_map replayed places ≡ all
all_replayed [] [] zip back = refl
all_replayed [] (p ∷ ps) zip back = absurd zip
all_replayed (t ∷ ts) [] zip back = absurd zip
all_replayed (t ∷ ts) (None ∷ ps) zip back = absurd (true≢false (sym (All-head IsSome None ps back)))
all_replayed (t ∷ ts) (Some p ∷ ps) zip back = rw (zip.0) (ap (λ rest. t ∷ rest) (all_replayed ts ps zip.1 (All-tail IsSome (Some p) ps back)))

-- a task was handed out for each place beyond those that are to do
pub handed_count : (job : JobView) (is : IsJob job) → length job.back ≡ length is.handed + length job.todo
handed_count job is = AllZip-long IsBackIn (tasks_of job.step) job.back is.back ∙ ap length is.all ∙ length-append is.handed job.todo

-- the first task to do is the one whose number is the count of those that were handed out
pub first_todo : (all handed rest : List Task) (task : Task) (number : ℕ) → all ≡ handed ++ task ∷ rest → number ≡ length handed → slice_get all number ≡ Some task
first_todo all handed rest task number are is = rw (are, is) (at handed)
  where
    at : (handed : List Task) → slice_get (handed ++ task ∷ rest) (length handed) ≡ Some task
    at [] = refl
    at (h ∷ hs) = at hs
