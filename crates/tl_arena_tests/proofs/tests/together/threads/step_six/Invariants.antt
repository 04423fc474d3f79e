use Rattle.tl_arena_tests.proofs.tests.together.threads.step_six.Given as goal

-- the arena that was made for the test
abbrev pub ghosts-work : goal.ghosts-work
ghosts-work g a = record { arena = a.arena.now }
