-- Lines, and what they ask for (own).
use Rattle.std.proofs.Common.{◌≡◌, ℕ, ◌==◌, List, [], ◌∷◌, true, false, Some, None, codes, refl}
use Rattle.std.specs.Prelude.{replicate}
use Rattle.std.specs.List.{slice_split}
use Rattle.client_model.specs.Lines.{line_of, line_with}
use Rattle.client_model.specs.declared.command.Command.TheVariants as command

-- the words of a text, between its blanks
abbrev pub words_of : List ℕ → List (List ℕ)
words_of text = slice_split (λ b. b == 32) text

abbrev pub address : List ℕ
address = codes "127.0.0.1:2375"

-- options stand before the first other word, in any order
kill : line_of (words_of (codes "127.0.0.1:2375 kill -s TERM web")) ≡ Some (line_with address (command.Kill (codes "web") (Some (codes "TERM"))))
kill = refl

run : line_of (words_of (codes "127.0.0.1:2375 run --rm -v d:/d:ro -i -v e:/e --restart on-failure:5 engine/tools cat -i"))
    ≡ Some (line_with address (command.Run (record {
      name = None;
      restart = Some (record { policy = codes "on-failure"; most = 5 });
      input = true;
      binds = codes "d:/d:ro" ∷ codes "e:/e" ∷ [];
      image = codes "engine/tools";
      words = codes "cat" ∷ codes "-i" ∷ [];
    }) true))
run = refl

update : line_of (words_of (codes "127.0.0.1:2375 update --restart on-failure:5 web"))
    ≡ Some (line_with address (command.Update (codes "web") (record { policy = codes "on-failure"; most = 5 })))
update = refl

health : line_of (words_of (codes "127.0.0.1:2375 health 1700000003.5 web"))
    ≡ Some (line_with address (command.Health (codes "1700000003.5") (codes "web")))
health = refl

-- what isn't an option of its command is its first other word
other_word : line_of (words_of (codes "127.0.0.1:2375 start -f")) ≡ Some (line_with address (command.Start (codes "-f")))
other_word = refl

-- an option that is doubled, one without its value, a word too many and one too few, another host, and another command
doubled : line_of (words_of (codes "127.0.0.1:2375 rm -f -f web")) ≡ None
doubled = refl

no_value : line_of (words_of (codes "127.0.0.1:2375 stop -t")) ≡ None
no_value = refl

no_policy : line_of (words_of (codes "127.0.0.1:2375 update web")) ≡ None
no_policy = refl

no_time : line_of (words_of (codes "127.0.0.1:2375 health soon web")) ≡ None
no_time = refl

too_many : line_of (words_of (codes "127.0.0.1:2375 start web db")) ≡ None
too_many = refl

too_few : line_of (words_of (codes "127.0.0.1:2375 exec web")) ≡ None
too_few = refl

other_host : line_of (words_of (codes "localhost:2375 ps")) ≡ None
other_host = refl

other_command : line_of (words_of (codes "127.0.0.1:2375 top web")) ≡ None
other_command = refl

-- MAX is one to ten digits, and MOMENT at most the greatest moment
no_most : line_of (words_of (codes "127.0.0.1:2375 create --restart always: engine/tools")) ≡ None
no_most = refl

too_late : line_of (words_of (codes "127.0.0.1:2375 replay 9000000000001")) ≡ None
too_late = refl

-- without `--seed` it is all zeros
replay : line_of (words_of (codes "127.0.0.1:1 replay 1700000000000"))
    ≡ Some (line_with (codes "127.0.0.1:1") (command.Replay false (replicate 32 0) 1_700_000_000_000))
replay = refl

-- and without MOMENT it is 0
replay_headed : line_of (words_of (codes "127.0.0.1:1 replay")) ≡ Some (line_with (codes "127.0.0.1:1") (command.Replay false (replicate 32 0) 0))
replay_headed = refl

-- `--upgrade` stands before MOMENT, and once
upgrade : line_of (words_of (codes "127.0.0.1:1 replay --upgrade 5")) ≡ Some (line_with (codes "127.0.0.1:1") (command.Replay true (replicate 32 0) 5))
upgrade = refl

upgrade_doubled : line_of (words_of (codes "127.0.0.1:1 replay --upgrade --upgrade")) ≡ None
upgrade_doubled = refl
