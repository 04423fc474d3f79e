use Rattle.tl_arena_tests.proofs.tests.together.threads.lock.Given as goal

-- the arena that was made for the test
abbrev pub ghosts-through_the_lock : goal.ghosts-through_the_lock
ghosts-through_the_lock g a = record { arena = a.arena.now }
