-- The status of words that ask for nothing.
use Rattle.command_line.specs.declared.command.WordsError.{WordsError}
use Rattle.command_line.specs.declared.command.WordsError.TheVariants.{Told, UnknownWord, NoMemory}
use Rattle.run_ends.specs.declared.status.Status.{Status}
use Rattle.run_ends.specs.declared.status.Status.TheVariants.{Memory, Usage}

abbrev pub status_of_words : WordsError → Status
status_of_words (Told text) = Usage
status_of_words UnknownWord = Usage
status_of_words NoMemory = Memory
