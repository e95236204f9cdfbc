-- A feed that goes on with what another has read behind a header.
use Rattle.std.specs.Prelude.{◌≡◌, ℕ, ◌+◌, ◌-◌, ◌≤◌, ◌^◌, min, max, false, Option, Some, None, List, [], ◌++◌, length}
use Rattle.mt_words.specs.Changes.{Logged}
use Rattle.mt_record.specs.declared.feed.head.Head.{Head}
use Rattle.mt_record.specs.declared.feed.file_feed.FileKind.TheVariants as kinds
use Rattle.mt_record.specs.declared.front.LogFront.{LogFront}
use Rattle.mt_record.specs.declared.front.Rest.TheVariants.{Nothing}
use Rattle.mt_record.specs.Cutting.{first_time}
use Rattle.mt_record.specs.Heads.{head_bytes}
use Rattle.mt_record.specs.declared.read.FeedFault.{FeedFault}
use Rattle.mt_record.specs.Unsealing.{FileSoFar}
use Rattle.mt_record.specs.LogFeeding.{FedLog}

-- the front of a header without records, at the end of its bytes
abbrev pub begins_at : Head → ℕ → LogFront
begins_at head size = record { head = head; count = 0; latest = 0; version = 0; bytes = size; rest = Nothing }

-- a feed of a file of this kind and mark that has read a header, and nothing else
abbrev pub begun_feed : FileSoFar FeedFault → Head → FedLog
begun_feed file head = record {
  so_far = record { front = Some (begins_at head (length (head_bytes head))); ready = [] };
  held = [];
  fault = None;
  file = record { kind = file.kind; held = []; fault = None; place = record { mark = file.place.mark; searching = false; seam = [] } };
}

-- the records may follow one with this timestamp
abbrev pub RisesTo : ℕ → List Logged → Type 0
RisesTo latest records = (first : ℕ) → first_time records ≡ Some first → latest ≤ first

-- the front of the records of both, of which the second ones stand behind a header of their own
abbrev pub joined_front : LogFront → LogFront → LogFront
joined_front front behind = record front {
  count = min (front.count + behind.count) (2 ^ 64 - 1);
  latest = max front.latest behind.latest;
  version = max front.version behind.version;
  bytes = min (front.bytes + (behind.bytes - length (head_bytes behind.head))) (2 ^ 64 - 1);
}

abbrev pub joined_fronts : Option LogFront → Option LogFront → Option LogFront
joined_fronts (Some front) (Some behind) = Some (joined_front front behind)
joined_fronts front behind = None

-- the first feed, after it read what the second has read behind a header
abbrev pub joined_feed : FedLog → FedLog → FedLog
joined_feed own next = record own {
  so_far = record { front = joined_fronts own.so_far.front next.so_far.front; ready = own.so_far.ready ++ next.so_far.ready };
  held = next.held;
  file = record own.file { held = next.file.held };
}

-- the kind of the file is told; the feed has no fault, and does not search behind something broken
pub record IsSoundFeed (feed : FedLog) : Type 0 where
  pub told : feed.file.kind ≡ kinds.Untold → ⊥
  pub fault : feed.fault ≡ None
  pub text : feed.file.fault ≡ None
  pub first : feed.file.place.searching ≡ false

-- no byte is held back
abbrev pub HoldsNothing : FedLog → Type 0
HoldsNothing feed = (feed.held ≡ []) × (feed.file.held ≡ [])

-- both feeds have read the same header, and the records of the second may follow those of the first
pub record IsFollowedBy (own next : FedLog) : Type 0 where
  pub kind : own.file.kind ≡ next.file.kind
  pub mark : own.file.place.mark ≡ next.file.place.mark
  pub front : LogFront
  pub behind : LogFront
  pub begun : own.so_far.front ≡ Some front
  pub next_begun : next.so_far.front ≡ Some behind
  pub head : front.head ≡ behind.head
  pub rises : RisesTo front.latest next.so_far.ready

-- what the second feed has read behind a header goes on where the first one stands
pub record IsBefore (own next : FedLog) : Type 0 where
  pub own_sound : IsSoundFeed own
  pub next_sound : IsSoundFeed next
  pub whole : HoldsNothing own
  pub followed : IsFollowedBy own next
