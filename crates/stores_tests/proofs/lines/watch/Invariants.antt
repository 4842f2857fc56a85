use Rattle.stores_tests.proofs.lines.watch.Given as goal

-- the store's condition is kept
abbrev pub invariant-loop-p : goal.invariant-loop-p
invariant-loop-p g l = g.S.VersionStore.sound l.store

abbrev pub invariant-loop-step : goal.invariant-loop-step
invariant-loop-step g l = g.S.VersionStore.sound l.store
