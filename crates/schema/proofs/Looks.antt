-- To lose nothing, said by rows that are in the table. Assumes nothing.
use Rattle.std.proofs.Common.{◌≡◌, ℕ, ◌<◌, true, List, [], length, get_or, sym, subst}
use Rattle.dependencies.specs.Tables.{Row, Dep, agree, ObeysAll}
use Rattle.columns.specs.Cols.{Cols, columns}
use Rattle.schema.specs.Design.{Part, no_part, LosesNothing}
use Rattle.columns.specs.Members.{In}
use Rattle.columns.proofs.Members.{in_at, at_in}
use Rattle.dependencies.proofs.Rows.{Same, agree_same, same_agree}
use Rattle.dependencies.proofs.Closures.{Within}

-- a row of the table looks like r in the columns
abbrev pub Seen : List Row → Row → Cols → Type 0
Seen t r cs = (s : Row) × In s t × Within cs (Same r s)

abbrev pub SeenApart : List Row → Row → List Part → Type 0
SeenApart t r ps = (p : Part) → In p ps → Seen t r p.cols

abbrev AtPlace : List Row → Row → Cols → Type 0
AtPlace t r cs = (j : ℕ) × (j < length t) × (agree cs r (get_or t j []) ≡ true)

place_seen : (t : List Row) (r : Row) (cs : Cols) → AtPlace t r cs → Seen t r cs
place_seen t r cs p = (get_or t p.0 [], in_at t p.0 [] p.1, agree_same cs r (get_or t p.0 []) p.2)

seen_place : (t : List Row) (r : Row) (cs : Cols) → Seen t r cs → AtPlace t r cs
seen_place t r cs s =
    let j = at_in t s.0 [] s.1 in
    (j.0, j.1, subst (λ v. agree cs r v ≡ true) (sym j.2) (same_agree cs r s.0 s.2))

pub loses_seen : (n : ℕ) (ds : List Dep) (ps : List Part) → LosesNothing n ds ps → (t : List Row) (r : Row) → ObeysAll t ds → SeenApart t r ps
    → 0 < length ps → Seen t r (columns 0 n)
unfolding LosesNothing
loses_seen n ds ps l t r o f some· =
    place_seen t r (columns 0 n)
    (l t r o (λ i h. seen_place t r (get_or ps i no_part).cols (f (get_or ps i no_part) (in_at ps i no_part h))) some·)

pub seen_loses : (n : ℕ) (ds : List Dep) (ps : List Part)
    → ((t : List Row) (r : Row) → ObeysAll t ds → SeenApart t r ps → Seen t r (columns 0 n)) → LosesNothing n ds ps
unfolding LosesNothing
seen_loses n ds ps g t r o f some· =
    seen_place t r (columns 0 n)
    (g t r o (λ p h.
    let i = at_in ps p no_part h in
    place_seen t r p.cols (subst (λ q. AtPlace t r q.cols) i.2 (f i.0 i.1))))
