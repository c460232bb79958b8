-- What the line of `enginelab` is answered, and the line that tells where it listens (own).
use Rattle.std.specs.Prelude.{ℕ, List, ◌++◌, codes, decimal}
use Rattle.hex.specs.Hex.{encode_lower}
use Rattle.clap.specs.declared.error.kind.ErrorKind.{ErrorKind}
use Rattle.clap.specs.declared.error.kind.ErrorKind.TheVariants.{UnknownArgument, ArgumentConflict, InvalidValue, TooManyValues}
use Rattle.lab_line.specs.declared.line.Wrong.{Wrong}
use Rattle.lab_line.specs.declared.line.Wrong.TheVariants.{Words, Listen, Control, Clock, Seed, Journal}

-- ---- of words that are no line

unfoldable pub help : List ℕ
help =
    codes "usage: enginelab [--listen ADDR] [--control ADDR] [--clock CLOCK] [--seed HEX] [--journal N]\n"
    ++ codes "\n"
    ++ codes "ADDR is 127.0.0.1:PORT, where port 0, also without the option, is a free one.\n"
    ++ codes "CLOCK is hand:START, which control alone moves, or START:STEP, which goes on by itself;\n"
    ++ codes "moments are milliseconds since 1970. Without it the clock is the system's.\n"
    ++ codes "HEX is the seed of ids, 64 hexadecimal digits, and zeros without it.\n"
    ++ codes "N is the most entries of the journal, up to 16777216, and 4194304 without it.\n"

abbrev pub version : List ℕ
version = codes "enginelab 1.0.0\n"

-- why clap refuses words
abbrev pub words_reason : ErrorKind → List ℕ
words_reason UnknownArgument = codes "enginelab: a word is no option\n"
words_reason ArgumentConflict = codes "enginelab: an option stands twice\n"
words_reason InvalidValue = codes "enginelab: an option lacks its value\n"
words_reason TooManyValues = codes "enginelab: --help and --version take no value\n"
words_reason other = codes "enginelab: the words are no line\n"

-- why words are no line
abbrev pub reason : Wrong → List ℕ
reason (Words kind) = words_reason kind
reason Listen = codes "enginelab: --listen takes 127.0.0.1:PORT\n"
reason Control = codes "enginelab: --control takes 127.0.0.1:PORT\n"
reason Clock = codes "enginelab: --clock takes hand:START or START:STEP, each at most 9000000000000\n"
reason Seed = codes "enginelab: --seed takes 64 hexadecimal digits\n"
reason Journal = codes "enginelab: --journal takes a number from 1 to 16777216\n"

-- ---- once both doors listen

-- the two addresses, the seed and the moment of the opening
abbrev pub starting_line : ℕ → ℕ → List ℕ → ℕ → List ℕ
starting_line listening control seed moment =
    codes "{\"listening\":\"127.0.0.1:" ++ decimal listening
    ++ codes "\",\"control\":\"127.0.0.1:" ++ decimal control
    ++ codes "\",\"seed\":\"" ++ encode_lower seed
    ++ codes "\",\"moment\":" ++ decimal moment ++ codes "}\n"
