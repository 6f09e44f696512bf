-- The stored part of a list that is streamed.
use Rattle.std.specs.Prelude.{◌≤◌, length}
use Rattle.krl_types.specs.Subject.{Subject}
use Rattle.krl_entries.specs.Revocations.{stored}
use Rattle.krl_queries.specs.Questions.{Asked, serials_in, subject_size}
use Rattle.krl_entries.specs.Scope.{HoldsOnlyTopics}

-- Only the subject of the query is stored: at most two serial numbers, two keys, and the bytes of
-- the key or certificate.
pub record StoresAsked (subject : Subject) (asked : Asked) : Type 0 where
  pub within : HoldsOnlyTopics asked.topics asked.found
  pub serials : serials_in asked.topics.sections ≤ 2
  pub keys : length asked.topics.keys ≤ 2
  pub bytes : stored asked.topics ≤ subject_size subject
