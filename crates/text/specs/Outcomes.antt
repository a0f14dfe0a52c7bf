-- What the program answers to a text: the plan of the words that it says; "text that isn't such numbers, or too large for 64 bits: 1".
-- Assumes nothing.
use Rattle.meaning.specs.Plan.{Plan, plan, no_plan}
use Rattle.text.specs.Printing.{plan_text}
use Rattle.text.specs.Reading.{Text, Reading, says, isnt, read_text}
use Rattle.text.specs.Readers.{finished, reading_of}
use Rattle.text.specs.declared.reading.Reader.{Reader}

abbrev pub plan_of_reading : Reading → Plan
plan_of_reading (says ws) = plan ws
plan_of_reading isnt = no_plan 1

unfoldable pub plan_of_text : Text → Plan
plan_of_text text = plan_of_reading (read_text text)

-- what the program prints for a text
unfoldable pub printed : Text → Text
printed text = plan_text (plan_of_text text)

-- what it prints by what a reader has read, once the text has ended
unfoldable pub reply_to : Reader → Text
reply_to r = plan_text (plan_of_reading (reading_of (finished r)))
