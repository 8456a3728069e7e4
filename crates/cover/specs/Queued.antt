-- What a queue holds, from the front, and how many more it can take.
use Rattle.std.specs.Prelude.{ℕ, ◌-◌, List, length, drop}
use Rattle.bounded.specs.Items.{items}
use Rattle.cover.specs.declared.queue.Queue.{Queue}

abbrev pub queued : {T : Type 0} → Queue T → List T
queued q = drop q.first (items q.pushed)

abbrev pub spare : {T : Type 0} → Queue T → ℕ
spare q = 1024 - length (items q.pushed)
