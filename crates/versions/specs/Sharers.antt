-- What the active tasks have at one address: two bits for each, by its place in the order.
use Rattle.std.specs.Prelude.{◌≡◌, ℕ, ◌+◌, ◌-◌, ◌*◌, ◌<◌, ◌≤◌, Bool, true, false, List, map, length, drop, get_or, Some, None, Option, ◌==◌}
use Rattle.std.specs.Int.{bit_at}
use Rattle.versions.specs.declared.sharers.Sharers.{Sharers}
use Rattle.versions.specs.declared.version.Version.{Version}
use Rattle.versions.specs.Tables.{Table}
use Rattle.versions.specs.Versions.{no_version, is_own, is_held, squashed_by}

-- whether bit i of n is 1
abbrev pub bit_set : ℕ → ℕ → Bool
bit_set n i = bit_at n i == 1

-- the last place below k that passes a test, and the first from k on
abbrev pub LastBelow : (ℕ → Bool) → ℕ → Option ℕ → Type 0
LastBelow f k None = (i : ℕ) → i < k → f i ≡ false
LastBelow f k (Some j) = (j < k) × (f j ≡ true) × ((i : ℕ) → j < i → i < k → f i ≡ false)

abbrev pub FirstFrom : (ℕ → Bool) → ℕ → Option ℕ → Type 0
FirstFrom f k None = (i : ℕ) → k ≤ i → f i ≡ false
FirstFrom f k (Some j) = (k ≤ j) × (f j ≡ true) × ((i : ℕ) → k ≤ i → i < j → f i ≡ false)

-- the version at place i of some; no version past their end. Whether it has an own word; whether it is held at all
abbrev pub owns_at : List Version → ℕ → Bool
owns_at vs i = is_own (get_or vs i no_version)

abbrev pub holds_at : List Version → ℕ → Bool
holds_at vs i = is_held (get_or vs i no_version)

-- the address whose sharers they are; contracts cite it, since the field is private
abbrev pub shared_address : Sharers → ℕ
shared_address s = s.address

-- the sharers are those of at most four versions
pub record SharersOf (vs : List Version) (s : Sharers) : Type 0 where
  pub few : length vs ≤ 4
  pub marks : (i : ℕ) → bit_set s.shares (2 * i) ≡ (get_or vs i no_version).mark
  pub owns : (i : ℕ) → bit_set s.shares (2 * i + 1) ≡ owns_at vs i

-- a store squashes the tasks from this place on, where it squashes any of those from k on
abbrev pub SquashedFrom : List Version → ℕ → Option ℕ → Type 0
SquashedFrom vs k None = squashed_by (drop k vs) ≡ 0
SquashedFrom vs k (Some j) = (j < length vs) × (squashed_by (drop k vs) ≡ length vs - j)

-- the versions of a that some processors have, and the sharers of their address among the tasks on these processors
abbrev pub versions_of : Table → ℕ → List ℕ → List Version
versions_of table a ps = map (λ q. table q a) ps

abbrev pub SharersIn : List ℕ → Table → Sharers → Type 0
SharersIn ps table s = SharersOf (versions_of table (shared_address s) ps) s
